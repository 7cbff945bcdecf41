pub mod Meaning
pub mod WhatIsLeft
pub mod FieldSteps
pub mod Ledgers
pub mod Theorems
pub mod OneAnswer
