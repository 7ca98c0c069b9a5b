pub mod PlanLaws
pub mod ReplyLaws
pub mod TurnLists
