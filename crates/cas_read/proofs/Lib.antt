mod Floors
mod Refused
mod Values
