pub mod IntegerCalls
pub mod TraceCalls
