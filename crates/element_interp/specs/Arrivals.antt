-- Packets that may arrive.
pub use Rattle.packet_fields.specs.Arrivals.{IsArrival}
