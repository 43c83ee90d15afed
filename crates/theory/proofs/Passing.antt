-- By the rule that all edges pass the walk is the post-order walk over lists of far ends, turn for turn. Assumes nothing.
use Rattle.std.proofs.Common.{◌≡◌, ℕ, zero, suc, Bool, false, eqb, List, [], ◌∷◌, ◌++◌, map, sym, refl, ap, ◌∙◌, inl, inr, ⊎_elim, append_assoc}
use Rattle.std.proofs.lemmas.Bool.{false_from_ne_true, or_left}
use Rattle.theory.specs.Edges.{In}
use Rattle.theory.specs.Rules.{every}
use Rattle.theory.specs.Walk.{Place, place, mark, send, sends, asks, found, after, turn, did, run, order}
use Rattle.theory.specs.PostOrder.{in?, unless, fresh, visit, step}
use Rattle.theory.specs.PostOrder as post
use Rattle.theory.specs.AllPass.{Alike, Agrees}
use Rattle.theory.proofs.Kept.{kept_none}
use Rattle.theory.proofs.Walking.{mark_own, mark_cases}

-- what is not in the list is not in the set
out_of : (a : ℕ → Bool) (l : List ℕ) (x : ℕ) → Alike a l → (In x l → ⊥) → a x ≡ false
out_of a l x h n = false_from_ne_true (a x) (λ t. n ((h x).0 t))

alike_mark : (a : ℕ → Bool) (l : List ℕ) (x : ℕ) → Alike a l → Alike (mark a x) (x ∷ l)
alike_mark a l x h n = (
  λ t. ⊎_elim (λ p. inr ((h n).0 p)) (λ q. inl q) (mark_cases a x n t),
  ⊎_elim (λ q. ap (mark a x) q ∙ mark_own a x) (λ i. or_left (a n) (eqb n x) ((h n).1 i)),
)

module _ {E : Type 0} (lst : ℕ → List E) (far : E → ℕ) where
  send_unless : (a : ℕ → Bool) (l : List ℕ) (e : E) (st : List ℕ) → Alike a l → (c : Dec (In (far e) l)) → send far a e st ≡ unless c (far e) ++ st
  send_unless a l e st h (yes i) = rw ((h (far e)).1 i)
  send_unless a l e st h (no n) = rw (out_of a l (far e) h n)

  -- asking about the edges one by one puts what is fresh on top
  asks_fresh : (a : ℕ → Bool) (l : List ℕ) (es : List E) (st : List ℕ) (held : List E) → Alike a l → (asks far every a es st held).stack ≡ fresh l (map far es) ++ st
  asks_fresh a l [] st held h = refl
  asks_fresh a l (e ∷ es) st held h =
      asks_fresh a l es (send far a e st) held h
      ∙ ap (λ v. fresh l (map far es) ++ v) (send_unless a l e st h (in? (far e) l))
      ∙ sym (append_assoc (fresh l (map far es)) (unless (in? (far e) l) (far e)) st)

  -- no held edge goes out, so a new node adds just its own far ends
  found_fresh : (x : ℕ) (s : Place E) (d : List ℕ) → Alike s.seen d → (found lst far every x s).stack ≡ fresh (x ∷ d) (map far (lst x)) ++ s.stack
  found_fresh x s d h =
      asks_fresh (mark s.seen x) (x ∷ d) (lst x) _ _ (alike_mark s.seen d x h)
      ∙ ap (λ es. fresh (x ∷ d) (map far (lst x)) ++ sends far (mark s.seen x) es s.stack) (kept_none (λ _. false) s.held (λ _ _. refl))

  -- one turn
  turn_agrees : (st : List ℕ) (a b : ℕ → Bool) (held : List E) (d f : List ℕ) → Alike a d → Alike b f → let s = place st a b held in Agrees (turn lst far every s) (after (did s) f) (step (λ u. map far (lst u)) st d f)
  turn_agrees [] a b held d f ha hb = record { stack = refl; seen = ha; done = hb; order = refl }
  turn_agrees (x ∷ st) a b held d f ha hb = ways (in? x d) (in? x f)
    where
      ways : (i : Dec (In x d)) (j : Dec (In x f)) → let s = place (x ∷ st) a b held in Agrees (turn lst far every s) (after (did s) f) (visit (λ u. map far (lst u)) x st d f i j)
      ways (no n) j = rw (out_of a d x ha n) (record { stack = found_fresh x (place (x ∷ st) a b held) d ha; seen = alike_mark a d x ha; done = hb; order = refl })
      ways (yes i) (yes j) = rw ((ha x).1 i, (hb x).1 j) (record { stack = refl; seen = ha; done = hb; order = refl })
      ways (yes i) (no n) = rw ((ha x).1 i, out_of b f x hb n) (record { stack = refl; seen = ha; done = alike_mark b f x hb; order = refl })

  pub every_is_post_order : (k : ℕ) (s : Place E) (d f : List ℕ) → Alike s.seen d → Alike s.done f → Agrees (run lst far every k s) (order lst far every k s f) (post.run (λ u. map far (lst u)) k s.stack d f)
  unfolding run order post.run
  every_is_post_order zero s d f ha hb = record { stack = refl; seen = ha; done = hb; order = refl }
  every_is_post_order (suc k) s d f ha hb =
      let y = step (λ u. map far (lst u)) s.stack d f in
      let t = turn_agrees s.stack s.seen s.done s.held d f ha hb in
      rw (t.order, ← t.stack) (every_is_post_order k (turn lst far every s) y.disc y.fin t.seen t.done)
