pub mod ConnectionPlan
pub mod HttpPlan
pub mod HttpText
pub mod Reports
pub mod UdpPlan
pub mod UdpText
