-- What the private functions on choosing promise each other; no public contract names this.
use Rattle.std.specs.Prelude.{◌≡◌, List, ℕ, ◌≤◌, take}
use Rattle.erasure.specs.Choice.{servers_at}
use Rattle.erasure.specs.declared.choice.Chosen.{Chosen}

-- c holds the places, and the servers there
pub record Holds (k : ℕ) (servers places : List ℕ) (c : Chosen) : Type 0 where
  pub room : c.count ≤ k
  pub places_is : take c.count c.at ≡ places
  pub servers_is : take c.count c.servers ≡ servers_at servers places
