pub mod ConnectionId
