-- Laws of lists.
pub mod ListsLaws
pub mod GroupsLaws
pub mod RisingLaws
pub mod CountLaws
