-- Laws that the proofs of the functions share.
pub mod Due
pub mod SetBits
pub mod FiveWeeks
pub mod Every
pub mod WeekSearch
pub mod Ending
pub mod Places
pub mod DaySets
pub mod MonthSearch
pub mod Starting
-- What nothing here rests on: HOURLY and DAILY by their k-th moment.
pub mod StopK
