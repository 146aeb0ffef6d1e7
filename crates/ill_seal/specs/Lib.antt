pub mod Sender
pub mod Hmac
pub mod Letter
pub mod Carried
pub mod KeyText
