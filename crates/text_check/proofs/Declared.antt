-- A struct's name in the set of those that are declared.
use Rattle.std.proofs.Common.{◌≡◌, ◌||◌, not, Bool, true, false, [], cond, bytes_eq, refl, sym, ap, ◌∙◌, Vec, Global, String, string_bytes}
use Rattle.std.specs.BTreeSet.{BTreeSet, Updates, btree_set_len}
use Rattle.std.specs.Cmp.Lexicographic.{slice_cmp}
use Rattle.std.specs.List.{list_any}
use Rattle.std.specs.Ordering.{nat_cmp, is_eq}
use Rattle.std.specs.String.{string_cmp}
use Rattle.std.proofs.lemmas.List.{nil_from_length}
use Rattle.std.proofs.lemmas.Map.Text.{btree_set_updates_text}
use Rattle.glsl_ast.specs.Tree.{Text}
use Rattle.glsl_ast.specs.View.{name_text, decl_of}
use Rattle.glsl_ast.specs.declared.names.Name.{Name}
use Rattle.glsl_ast.specs.declared.items.Field.{Field}
use Rattle.glsl_ast.specs.declared.items.Decl.{Decl}
use Rattle.glsl_ast.specs.declared.items.Decl.TheVariants.{Struct}
use Rattle.text_check.specs.Words.{declares, declared_after}

either : (b x : Bool) → cond b true x ≡ (b || x)
either true x = refl
either false x = refl

pub declared_more : (old new : BTreeSet (String Global)) (name : Name) (key : String Global) (fields : Vec Field Global) (item : Decl) → item ≡ Struct name fields → string_bytes key ≡ name_text name → Updates string_cmp old new key true → (w : Text) → declares new w ≡ declared_after (declares old) (decl_of item) w
declared_more old new name key fields item is same updates w =
    btree_set_updates_text (string_bytes key) old new true updates w
    ∙ (either (bytes_eq (string_bytes key) w) (declares old w)
    ∙ (ap (λ bs. bytes_eq bs w || declares old w) same
    ∙ ap (λ i. declared_after (declares old) (decl_of i) w) (sym is)))

-- where there is no struct, none has the name
pub none_declared : (names : BTreeSet (String Global)) (w : Text) (e : Bool) → btree_set_len names ≡ 0 → e ≡ true → not e ≡ declares names w
none_declared names w e none is =
    let keys : names.keys ≡ [] = nil_from_length names.keys none in
    ap not is ∙ sym (ap (λ ks. list_any (λ k. is_eq (slice_cmp nat_cmp w (string_bytes k))) ks) keys)
