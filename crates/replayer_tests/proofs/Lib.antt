mod HadFailed
mod Writes
