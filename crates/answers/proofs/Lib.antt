pub mod FieldTaken
pub mod FedAlike
pub mod TextLeft
pub mod TextAdded
pub mod WholeText
pub mod OneAnswer
