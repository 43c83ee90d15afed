pub mod Complaints
pub mod Drafts
pub mod Forms
pub mod Queries
pub mod Reading
pub mod Words
