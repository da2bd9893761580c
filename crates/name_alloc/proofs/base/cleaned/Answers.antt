use Rattle.std.proofs.Common.{rules, ◌≡◌, false, map, take, subst, sym}
use Rattle.std.proofs.lemmas.Str.{IsUtf8-from_ascii}
use Rattle.name_alloc.specs.Base.{worded, single, trimmed}
use Rattle.name_alloc.proofs.Words.{AreWordBytes, kept_bytes, bytes_ascii}
use Rattle.name_alloc.proofs.base.cleaned.Goals as goal

pub unwrap-requires : goal.unwrap-requires
unwrap-requires c =
    let text = c.trimmed.result.items in
    let same : text ≡ trimmed (take 64 (single false (map worded c.args.given.now))) = search rules in
    c.from_utf8.ensures.succeeds (IsUtf8-from_ascii text (bytes_ascii text (subst AreWordBytes (sym same) (kept_bytes c.args.given.now))))
