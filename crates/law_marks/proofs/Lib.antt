mod Framed
mod All
