pub mod BegunLaws
pub mod ChunkLaws
pub mod ChunkWorkLaws
pub mod CutLaws
pub mod DealLaws
pub mod LimitLaws
pub mod ShareLaws
pub mod WorkLaws
