-- Document 01's bench cards marked P, as one table: what the definitions give, beside what the card says.
use Rattle.std.specs.Prelude.{◌≡◌, Bool, true, ◌&&◌, List, [], ◌∷◌, map, ℕ, replicate}
use Rattle.cluster.specs.Config.{Config, shelf, quorum, up_to}
use Rattle.hmac.specs.Hmac.{tag_size}
use Rattle.gf256.specs.Gf.{times}
use Rattle.erasure.specs.Fragments.{fragment, fragment_size_def}
use Rattle.protocol.specs.declared.Stamp.{Stamp}
use Rattle.protocol.specs.Values.{below}

pub data Value : Type 0 where
  number : ℕ → Value
  test : Bool → Value
  by_server : List (List ℕ) → Value

pub record Card : Type 0 where
  pub given : Value
  pub card : Value

-- the fragments of a content for servers 1 to S
abbrev pub fragments : Config → List ℕ → List (List ℕ)
fragments s content = map (fragment s.points s.threshold content) (up_to s.servers)

-- the stamp of a number by a writer; the tag has no part in the order
abbrev pub by : ℕ → ℕ → Stamp
by n w = record { number = n; writer = w; tag = replicate tag_size 0 }

unfoldable pub cards : List Card
cards =
    record { given = number (times 0x57 0x83); card = number 0xc1 }
    ∷ record { given = number (times 0x03 0xf6); card = number 0x01 }
    ∷ record {
      given = by_server (fragments (shelf 1) (0x00 ∷ 0x01 ∷ []));
      card = by_server
          ((0x00 ∷ []) ∷ (0x01 ∷ []) ∷ (0xf7 ∷ []) ∷ (0x03 ∷ []) ∷ []);
    }
    ∷ record {
      given = by_server (fragments (shelf 1) (0x00 ∷ 0x00 ∷ 0x01 ∷ []));
      card = by_server ((0x00 ∷ 0x00 ∷ []) ∷ (0x01 ∷ 0x00 ∷ []) ∷ (0xf7 ∷ 0x00 ∷ []) ∷ (0x03 ∷ 0x00 ∷ []) ∷ []);
    }
    ∷ record { given = number (fragment_size_def (shelf 4).threshold 1024); card = number 205 }
    ∷ record { given = number (fragment_size_def (shelf 4).threshold 1); card = number 1 }
    ∷ record { given = test (below (by 5 2) (by 5 3) && below (by 5 3) (by 6 1)); card = test true }
    ∷ record { given = number (quorum (shelf 1)); card = number 3 }
    ∷ record { given = number (quorum (shelf 4)); card = number 9 }
    ∷ []

abbrev pub Right : Card → Type 0
Right c = c.given ≡ c.card
