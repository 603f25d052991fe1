-- What only steps of the tests of schemes and plans need.
pub mod Tests
