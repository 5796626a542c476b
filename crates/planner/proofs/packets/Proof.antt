-- Rounds times servers, and times readers. Assumes nothing.
use mathlib.Core.Path.{ap}
use mathlib.Core.List.{[], ◌∷◌}
use Prim.Native.Nat.{ℕ, ◌*◌, ◌≤◌}
use native.Mathlib.Nat.{mul-le-mul}
use native.Mathlib.Omega.{arith}
use borrow.Author.Rules.{rules}
use Rattle.cluster.specs.Ranges.{most_servers}
use Rattle.planner.proofs.Bounds.{plenty, servers-most, product-most}
use Rattle.planner.proofs.packets.Statement.{statement}
use Rattle.planner.proofs.packets.Tie as tie

few : (c : tie.After-servers-servers) → c.servers-servers.result ≤ most_servers
few c = omega (arith, c.servers-servers.ensures, servers-most _ c.requires.0)

-- a product with the readers
times : (c : tie.After-servers-servers) (rounds : ℕ) → rounds ≤ 3 → c.args.readers * (rounds * c.servers-servers.result) ≤ plenty * plenty
times c rounds h =
    let p : c.args.readers ≤ plenty = omega (arith, c.requires.1) in
    let q : rounds * c.servers-servers.result ≤ 3 * most_servers = mul-le-mul h (few c) in
    product-most _ _ p (omega (arith, q))

mul-write : tie.Need-overflow_mul-write
mul-write c = omega (arith, few c)

mul-reads : tie.Need-overflow_mul-reads
mul-reads c = omega (arith, few c)

mul-reads-2 : tie.Need-overflow_mul-reads-2
mul-reads-2 c = omega (arith, times c 2 (omega arith))

mul-repaired-2 : tie.Need-overflow_mul-repaired-2
mul-repaired-2 c = omega (arith, times c 3 (omega arith))

returns : tie.Need-returns
returns c =
    let r = c.args.readers in
    ap (λ (n : ℕ). (3 * n) ∷ (3 * n) ∷ (r * (2 * n)) ∷ (r * (2 * n)) ∷ (r * (3 * n)) ∷ (r * (3 * n)) ∷ []) c.servers-servers.ensures

pub packets_spec : {M : Type 1} → statement M
packets_spec = tie.close (tie.spec (λ c κs. search rules) mul-write mul-reads mul-reads-2 mul-write mul-repaired-2 returns)
