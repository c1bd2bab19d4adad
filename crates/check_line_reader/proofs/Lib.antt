mod Ahead
mod WordsLaw
mod Closing
mod Turning
