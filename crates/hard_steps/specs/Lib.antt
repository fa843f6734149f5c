pub mod HardSteps
