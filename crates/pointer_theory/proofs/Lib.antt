-- The pointer rules are right: what stands before each start, that the pointer is the chosen next, that the entries are what 01
-- says, and the count of moves. None assumes anything but what each law states.
pub mod Turns
pub mod Falls
pub mod Ready
pub mod Choice
pub mod Entries
pub mod Paid
pub mod Count
pub mod Numbers
