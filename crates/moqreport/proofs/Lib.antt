pub mod LeftInBuffer
