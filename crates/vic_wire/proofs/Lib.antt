pub mod KeyBits
