-- Who is linked with a type, one after the other: a table of 129 places to a type.
use Rattle.std.specs.Prelude.{◌≡◌, ◌≢◌, true, false, List, ℕ, ◌+◌, ◌*◌, ◌≤◌, ◌<◌, length, get_or}
use Rattle.links.specs.Marks.{marked}

-- The first type from i on that is linked with type c, or n where none of n types is.
pub record Follower (area : List ℕ) (n c i r : ℕ) : Type 0 where
  pub from : i ≤ r
  pub within : r ≤ n
  pub none_between : (j : ℕ) → i ≤ j → j < r → marked area c j ≡ false
  pub linked : r < n → marked area c r ≡ true

-- 128 types, and a place behind the last.
abbrev pub followers_line : ℕ
followers_line = 129

abbrev pub followers_size : ℕ
followers_size = 16512

abbrev pub follower_at : List ℕ → ℕ → ℕ → ℕ
follower_at next c i = get_or next (followers_line * c + i) 0

pub record Followers (area : List ℕ) (n : ℕ) (next : List ℕ) : Type 0 where
  pub size : length next ≡ followers_size
  pub each : (c i : ℕ) → c < n → i ≤ n → Follower area n c i (follower_at next c i)

-- Line c is filled from place i on; the other lines are as they were.
pub record FollowLine (area : List ℕ) (n c i : ℕ) (before after : List ℕ) : Type 0 where
  pub size : length after ≡ length before
  pub line : (k : ℕ) → i ≤ k → k ≤ n → Follower area n c k (follower_at after c k)
  pub kept : (d k : ℕ) → d ≢ c → k < followers_line → follower_at after d k ≡ follower_at before d k
