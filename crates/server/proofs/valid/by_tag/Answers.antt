-- The tag at its place against the tag made. Assumes nothing.
use Rattle.std.proofs.Common.{ℕ, ◌-◌, ◌*◌, ap, ◌∙◌}
use Rattle.hmac.specs.Hmac.{tag_size}
use Rattle.format.specs.Reading.{bytes_at}
use Rattle.server.proofs.Testing.{tag-made}
use Rattle.server.proofs.valid.by_tag.Goals as goal

pub returns : goal.returns
returns c =
    tag-made c.args.prepared c.args.opened c.args.candidate.now c.args.digest c.part-stamp.ensures c.prepared_tag_with-tag.ensures
    c.tags_size-size.ensures c.part-tags.ensures
    (c.part.ensures ∙ ap (λ (k : ℕ). bytes_at c.part-tags.result.now (tag_size * (k - 1)) tag_size) c.from.ensures) c.same_throughout.ensures
