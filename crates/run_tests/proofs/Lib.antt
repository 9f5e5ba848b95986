mod CallLemmas
mod FollowedLemmas
