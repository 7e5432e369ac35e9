mod Moves
mod SeatMoves
mod Closing
mod Law
