-- The meaning of reading a file front to back.
pub mod Read
