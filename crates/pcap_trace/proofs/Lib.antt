pub mod NumberLemmas
pub mod OneRecord
pub mod OneCapture
pub mod OneAnswer
pub mod RecordLoop
pub mod PacketLoop
