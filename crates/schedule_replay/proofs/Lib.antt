mod WholeReplay
mod ReplayerStates
mod Framed
