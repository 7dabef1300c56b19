-- `names::are_distinct` meets its contract: at a place of the list, the two ways to ask whether a name stands first agree.
use Rattle.std.proofs.Common.{◌≡◌, ℕ, ◌<◌, ◌∙◌, sym, refl, Bool, true, false, cond, length, Some, None, eqb, ltb, ltb-false, arith, rules, tests}
use borrow.Author.Tests.{ne_eqb}
use Rattle.std.specs.List.{list_all, enumerate_from}
use Rattle.std.specs.Option.{option_eq}
use Rattle.std.proofs.lemmas.Iterator.{YieldsList-from_slice}
use Rattle.std.proofs.lemmas.Iterator.Consumers.{YieldsList-from_enumerate}
use Rattle.std.proofs.lemmas.Iterator.Search.{all_from_yields_List}
use Rattle.model.specs.Names.{seat, among}
use Rattle.model.proofs.ListLaws.{every_numbered, every_placed}
use Rattle.names.proofs.are_distinct.Goals as goal

is_seat : (s n i : ℕ) → i < n → option_eq eqb (cond (ltb s n) (Some s) None) (Some i) ≡ eqb s i
is_seat s n i h = go (ltb s n) refl
  where
    go : (b : Bool) → ltb s n ≡ b → option_eq eqb (cond b (Some s) None) (Some i) ≡ eqb s i
    go true e = refl
    go false e = sym (ne_eqb s i (λ same. omega (arith, ltb-false s n e)))

pub returns : goal.returns
returns c =
    let ns = c.args.names.now in
    let e : c.all.result ≡ list_all (λ p. option_eq eqb (cond (among p.1 ns) (Some (seat p.1 ns)) None) (Some p.0)) (enumerate_from 0 ns) =
    all_from_yields_List (λ p. option_eq eqb (cond (among p.1 ns) (Some (seat p.1 ns)) None) (Some p.0)) _ _ _ c.all.ensures.ran (YieldsList-from_enumerate (YieldsList-from_slice ns cc) (cc)) (λ x b q k. search (rules, tests)) in
    e
    ∙ sym (every_numbered (λ i n. option_eq eqb (cond (among n ns) (Some (seat n ns)) None) (Some i)) 0 ns)
    ∙ every_placed 0 ns (λ i n h. is_seat (seat n ns) (length ns) i (omega arith))
