-- What private functions make on the way. No public contract speaks of it, so nobody has to believe it.
use Rattle.std.specs.Prelude.{◌≡◌, ℕ, ◌+◌, ◌-◌, ◌%◌, ◌≤◌, ◌<◌, List, ◌++◌, length, get_or, replicate}
use Rattle.sha256.specs.declared.rounds.Work.{Work}
use Rattle.sha256.specs.Sha256.{◌⊞◌, sigma0, sigma1, grow, rounds}

-- a list with zeros up to 128 bytes
unfoldable pub filled : List ℕ → List ℕ
filled x = x ++ replicate (128 - length x) 0

-- word n + 16 of the schedule, where w has the words n to n + 15, word i at place i modulo 16
unfoldable pub later_word : List ℕ → ℕ → ℕ
later_word w n = sigma1 (get_or w ((n + 14) % 16) 0) ⊞ get_or w ((n + 9) % 16) 0 ⊞ sigma0 (get_or w ((n + 1) % 16) 0) ⊞ get_or w (n % 16) 0

-- n rounds over the schedule of the words b, from the working variables s, have given v, and w has the next 16 words
pub record Reached (b : List ℕ) (s : Work) (n : ℕ) (v : Work) (w : List ℕ) : Type 0 where
  pub work : v ≡ rounds n (grow 48 b) s
  pub next : (i : ℕ) → n ≤ i → i < n + 16 → i < 64 → get_or w (i % 16) 0 ≡ get_or (grow 48 b) i 0

-- what is so after n rounds is so after m with r and x, for every block
abbrev pub Advances : ℕ → ℕ → Work → List ℕ → Work → List ℕ → Type 0
Advances n m v w r x = (b : List ℕ) (s : Work) → length b ≡ 16 → Reached b s n v w → Reached b s m r x
