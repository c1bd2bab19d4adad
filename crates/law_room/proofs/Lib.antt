mod Same
mod Waiting
mod Items
mod Agreeing
mod Rooms
mod Limits
mod Procedures
mod Counting
