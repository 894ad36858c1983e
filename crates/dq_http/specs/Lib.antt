pub mod RequestOutcomes
pub mod Notes
pub mod InstitutionLimits
pub mod HttpConnections
pub mod Places
pub mod RequestQueue
