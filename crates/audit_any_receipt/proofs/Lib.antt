mod Answered
mod AnyKinds
mod Contradicted
mod Given
mod Held
