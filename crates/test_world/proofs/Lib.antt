mod Floors
mod Leading
mod Plays
mod Shown
