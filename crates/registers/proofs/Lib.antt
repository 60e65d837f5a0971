-- What each register call's contract comes to, case by case.
pub mod Calls
