pub mod KindFormats
pub mod EndFormats
pub mod AnswerFormats
pub mod AskedFormats
pub mod FieldFormats
pub mod BodyFormats
pub mod PacketFormats
