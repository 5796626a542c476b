-- The drill for other languages: a refusal is packed as everywhere; a listing's count has the whole number, since it can be longer than 16 bits tell.
use Rattle.std.specs.Prelude.{List, ℕ}
use Rattle.cluster.specs.Refusals.{on_refusal}
use Rattle.drill.specs.Listing.{Drilled}
use Rattle.embed.specs.Packing.{packed}

pub record PackedDrill : Type 0 where
  pub answer : ℕ
  pub output : List ℕ
  pub work : List ℕ

unfoldable pub packed_drill : Drilled → PackedDrill
packed_drill d =
    record { answer = on_refusal d.result.number d.result.count (packed d.result.number 0 0 0); output = d.output; work = d.work }
