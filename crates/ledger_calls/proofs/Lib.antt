pub mod CallsAnswered
