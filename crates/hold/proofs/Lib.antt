pub mod HoldMarks
