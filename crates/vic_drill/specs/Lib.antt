pub mod Drills
pub mod Laws
pub mod MayBe
