-- The part of the slots is filled with zeros. Nothing is assumed.
use Rattle.std.proofs.Common.{◌≡◌, ◌∙◌, ap, refl, ℕ, List, length, replicate, take, drop, arith, length-drop}
use Rattle.std.proofs.lemmas.List.{length-take}
use Rattle.std.proofs.lemmas.Slice.{put_mid-paste}
use lib.ListN.{length-replicate}
use Rattle.format.proofs.Puts.{wrote-copy}
use Rattle.client.proofs.begin.clear_slots.Goals as goal

pub returns : goal.returns
returns c =
    let zeros : List ℕ = replicate 3393 0 in
    let n : length zeros ≡ 3393 = length-replicate {A = ℕ} 3393 0 in
    let l : length (take 3393 (drop 1317 c.args.kept.now)) ≡ 3393 =
    omega (arith, length-take 3393 (drop 1317 c.args.kept.now), length-drop 1317 c.args.kept.now, c.requires) in
    let e : c.fill.new.self ≡ zeros = c.fill.ensures.after (λ y q. q) ∙ ap (λ (k : ℕ). replicate k 0) l in
    put_mid-paste 1317 3393 c.args.kept.now c.fill.new.self zeros (length zeros) e n refl ∙ (wrote-copy c.args.kept.now 1317 zeros).bytes
