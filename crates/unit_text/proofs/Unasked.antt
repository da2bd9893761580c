-- The head of a text, where nothing that is written depends on which instructions are live.
use Rattle.std.proofs.Common.{◌≡◌, ℕ, Bool, true, false, List, refl, ◌∙◌, subst}
use Rattle.std.specs.List.{list_any}
use Rattle.spv_module.specs.declared.inst.Function.{Function}
use Rattle.text_rules.specs.Constants.{Source}
use Rattle.text_rules.specs.Printed.{Reached}
use Rattle.text_rules.specs.Claims.{Plan}
use Rattle.text_items.specs.declared.live.Live.{Live}
use Rattle.text_items.specs.Asked.{is_asked}
use Rattle.text_items.specs.Names.{item_names}
use Rattle.text_items.proofs.Unasked.{claims_same, declarations_same}
use Rattle.unit_text.specs.declared.heads.Head.{Head}
use Rattle.unit_text.specs.Reached.{IsHead}

abbrev with_live : List Function → List ℕ → List ℕ → Reached
with_live fs types mentions = record { functions = fs; types = types; mentions = mentions }

either : {P : Type 0} (b : Bool) → (b ≡ true → P) → (b ≡ false → P) → P
either true f g = f refl
either false f g = g refl

unasked : (s : Source) (fs : List Function) (some : Live) (types mentions : List ℕ) (plans : List Plan) (h : Head) → list_any (is_asked s) s.of.globals ≡ false
    → IsHead s (with_live fs some.types.items some.mentions.items) plans h → IsHead s (with_live fs types mentions) plans h
unasked s fs some types mentions plans h none is = record {
  named = record {
    claimed = is.named.claimed;
    claims_are = is.named.claims_are ∙ claims_same s fs some.types.items some.mentions.items types mentions plans none;
    lawful = is.named.lawful;
    names_are = is.named.names_are;
  };
  items_are = is.items_are ∙ declarations_same s fs some.types.items some.mentions.items types mentions (item_names s h.names) none;
}

-- the head with what is told of live instructions, where anything asks for these
pub head_live : (s : Source) (fs : List Function) (some : Live) (types mentions : List ℕ) (plans : List Plan) (h : Head)
    → (list_any (is_asked s) s.of.globals ≡ true → some.types.items ≡ types) → (list_any (is_asked s) s.of.globals ≡ true → some.mentions.items ≡ mentions)
    → IsHead s (with_live fs some.types.items some.mentions.items) plans h → IsHead s (with_live fs types mentions) plans h
head_live s fs some types mentions plans h typed mentioned is =
    either (list_any (is_asked s) s.of.globals)
    (λ asked. subst (λ (ms : List ℕ). IsHead s (with_live fs types ms) plans h) (mentioned asked) (subst (λ (ts : List ℕ). IsHead s (with_live fs ts some.mentions.items) plans h) (typed asked) is))
    (λ none. unasked s fs some types mentions plans h none is)
