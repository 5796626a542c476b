-- What private functions promise each other; no public contract names these.
-- The verbs that code reads in a sheet, by their numbers.
use Rattle.std.specs.Prelude.{ℕ}
use Rattle.drill.specs.declared.verbs.Verb.{Verb}
use Rattle.drill.specs.declared.verbs.Verb.TheVariants as verbs

abbrev pub verb_number : Verb → ℕ
verb_number verbs.Shelf = 0
verb_number verbs.Write = 1
verb_number verbs.Read = 2
verb_number verbs.Visit = 3
verb_number verbs.Unlatest = 4
verb_number verbs.Stop = 5
