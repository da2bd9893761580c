-- What a text names has a name: the keys of functions, values, flags, kept indexes, spares and items are claimed.
pub mod Listed
pub mod Keys
pub mod Named
pub mod Words
pub mod Apart
pub mod Told
pub mod Flags
pub mod Constants
pub mod Variables
pub mod Bodies
