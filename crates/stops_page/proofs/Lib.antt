pub mod InputLines
pub mod Numbers
pub mod StopTexts
pub mod Counts
pub mod Answers
pub mod Lengths
