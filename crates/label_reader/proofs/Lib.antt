pub mod LabelBlock
