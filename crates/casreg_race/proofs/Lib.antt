mod Closed
mod Lined
mod Meant
mod Racing
mod Rooms
mod Written
