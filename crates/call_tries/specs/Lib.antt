pub mod UpToDate
