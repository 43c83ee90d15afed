-- Listings of a set of nodes of a graph: its roots, its order and its links, each along the edges (Forward) or against them (Reverse).
-- Direction, near, far, followed: which end of an edge comes first, and which lists are followed.  inside: the followed edges with both ends listed.
-- some: whether an item of a list passes.  together: whether two numbers are of one group.  entered, roots: the nodes to begin from.
-- order: the listed nodes in component order.  Linking, meet, begin, show, shows, linking, links: the walk that shows edges.
-- Ascending, Root, Roots, Order, Link, Behind, Shows: what the listings mean.  Whole: a set has each component whole or not at all.
-- ShowSteps: how to follow the walk turn by turn.  ListingLaw: a law of every graph, direction and listed set.
-- RootsAreEntries, RootsAreOne, OrderRunsOnward, LinksShowWhatRootsReach, RootsReachAll, LinksShowAll, LinksFit,
-- ShowGoesBySteps: laws.
-- Assumes nothing.
use Rattle.std.specs.Prelude.{◌≡◌, ℕ, zero, suc, ◌+◌, ◌<◌, ◌≤◌, Bool, true, false, not, ◌&&◌, ◌||◌, List, [], ◌∷◌, reverse, length, filter, nat_eq}
use mathlib.Core.List.{reverse_aux}
use Rattle.theory.specs.Edges.{Edge, In, Once, within, Distinct}
use Rattle.theory.specs.Reach.{Reach, Same, targets, sources}
use Rattle.theory.specs.PostOrder.{Before, in?, below, weight, share}
use Rattle.theory.specs.Components.{components, flat, GraphLaw}

pub data Direction : Type 0 where
  Forward : Direction
  Reverse : Direction

-- the end that an edge is followed from
abbrev pub near : {W : Type 0} → Direction → Edge W → ℕ
near Forward e = e.source
near Reverse e = e.target

-- the end that it is followed to
abbrev pub far : {W : Type 0} → Direction → Edge W → ℕ
far Forward e = e.target
far Reverse e = e.source

-- the lists of edges by their near ends
abbrev pub followed : {W : Type 0} → Direction → (outs ins : ℕ → List (Edge W)) → ℕ → List (Edge W)
followed Forward outs ins = outs
followed Reverse outs ins = ins

-- the edges followed from n with both ends listed
abbrev pub inside : {W : Type 0} → Direction → (ℕ → Bool) → (outs ins : ℕ → List (Edge W)) → ℕ → List (Edge W)
inside d p outs ins n = filter (within p) (followed d outs ins n)

-- whether some item passes
abbrev pub some : {X : Type 0} → (X → Bool) → List X → Bool
some p [] = false
some p (x ∷ l) = p x || some p l

-- whether some group has both u and w
abbrev pub together : List (List ℕ) → ℕ → ℕ → Bool
together gs u w = some (λ g. some (nat_eq u) g && some (nat_eq w) g) gs

-- Whether an inside edge comes from another group to the group of n. An edge within the group, so too from a node to itself, never counts.
abbrev pub entered : {W : Type 0} → Direction → (ℕ → Bool) → (outs ins : ℕ → List (Edge W)) → ℕ → List (List ℕ) → ℕ → Bool
entered d p outs ins bound gs n = some (λ a. some (λ e. together gs (far d e) n && not (together gs a n)) (inside d p outs ins a)) (below bound)

-- the listed nodes to whose component no inside edge comes from another, ascending
unfoldable pub roots : {W : Type 0} → Direction → (ℕ → Bool) → (outs ins : ℕ → List (Edge W)) → ℕ → List ℕ
roots d p outs ins bound = filter (λ n. p n && not (entered d p outs ins bound (components (targets outs) (sources ins) bound) n)) (below bound)

-- the component order without the unlisted nodes; against the edges, turned round
unfoldable pub order : {W : Type 0} → Direction → (ℕ → Bool) → (outs ins : ℕ → List (Edge W)) → ℕ → List ℕ
order Forward p outs ins bound = filter p (flat (components (targets outs) (sources ins) bound))
order Reverse p outs ins bound = reverse (filter p (flat (components (targets outs) (sources ins) bound)))

-- the edges on the stack, its top first; the nodes reached; the edges shown, the latest first
pub record Linking (X : Type 0) : Type 0 where
  pub stack : List X
  pub met : List ℕ
  pub shown : List X

-- node u is reached: the first time its edges are pushed, in order
abbrev pub meet : {X : Type 0} → (ℕ → List X) → (u : ℕ) (s : List X) (m : List ℕ) (h : List X) → Dec (In u m) → Linking X
meet lst u s m h (yes i) = record { stack = s; met = m; shown = h }
meet lst u s m h (no n) = record { stack = reverse_aux (lst u) s; met = u ∷ m; shown = h }

-- each of the roots is reached in turn
unfoldable pub begin : {X : Type 0} → (ℕ → List X) → List ℕ → List X → List ℕ → Linking X
begin lst [] s m = record { stack = s; met = m; shown = [] }
begin lst (r ∷ rs) s m = let x = meet lst r s m [] (in? r m) in begin lst rs x.stack x.met

-- the top edge is taken off and shown, and its far end is reached
abbrev pub show : {X : Type 0} → (ℕ → List X) → (X → ℕ) → List X → List ℕ → List X → Linking X
show lst far [] m h = record { stack = []; met = m; shown = h }
show lst far (e ∷ s) m h = meet lst (far e) s m (e ∷ h) (in? (far e) m)

-- k turns
unfoldable pub shows : {X : Type 0} → (ℕ → List X) → (X → ℕ) → ℕ → List X → List ℕ → List X → Linking X
shows lst far zero s m h = record { stack = s; met = m; shown = h }
shows lst far (suc k) s m h = let x = show lst far s m h in shows lst far k x.stack x.met x.shown

-- the walk from the roots, after k turns
abbrev pub linking : {W : Type 0} → Direction → (ℕ → Bool) → (outs ins : ℕ → List (Edge W)) → (bound k : ℕ) → Linking (Edge W)
linking d p outs ins bound k =
    let x = begin (inside d p outs ins) (roots d p outs ins bound) [] [] in
    shows (inside d p outs ins) (far d) k x.stack x.met []

-- the edges that the whole walk shows, the first shown first; against the edges too each is shown as it is, from its source to its target
unfoldable pub links : {W : Type 0} → Direction → (ℕ → Bool) → (outs ins : ℕ → List (Edge W)) → ℕ → List (Edge W)
links d p outs ins bound = reverse (linking d p outs ins bound (weight (inside d p outs ins) bound [])).shown

abbrev pub Ascending : List ℕ → Type 0
Ascending [] = Unit {0}
Ascending (x ∷ l) = ((y : ℕ) → In y l → x < y) × Ascending l

-- every inside edge that comes to the component of n comes from that component
abbrev pub Root : {W : Type 0} → Direction → (ℕ → Bool) → (outs ins : ℕ → List (Edge W)) → ℕ → Type 0
Root {W} d p outs ins n = (a : ℕ) (e : Edge W) → In e (inside d p outs ins a) → Same (targets outs) (far d e) n → Same (targets outs) (near d e) n

-- rs has just the listed nodes that are roots
pub record Roots {W : Type 0} (d : Direction) (p : ℕ → Bool) (outs ins : ℕ → List (Edge W)) (bound : ℕ) (rs : List ℕ) : Type 0 where
  pub ascending : Ascending rs
  pub nodes : (n : ℕ) → In n rs → n < bound
  pub listed : (n : ℕ) → In n rs → p n ≡ true
  pub root : (n : ℕ) → In n rs → Root d p outs ins n
  pub all : (n : ℕ) → n < bound → p n ≡ true → Root d p outs ins n → In n rs

-- l has just the listed nodes, each once, and an inside edge between two components has its near end first
pub record Order {W : Type 0} (d : Direction) (p : ℕ → Bool) (outs ins : ℕ → List (Edge W)) (bound : ℕ) (l : List ℕ) : Type 0 where
  pub nodes : (n : ℕ) → In n l → n < bound
  pub listed : (n : ℕ) → In n l → p n ≡ true
  pub all : (n : ℕ) → n < bound → p n ≡ true → In n l
  pub once : Distinct l
  pub onward : (a : ℕ) (e : Edge W) → In e (inside d p outs ins a) → (Same (targets outs) (near d e) (far d e) → ⊥) →
      Before (near d e) (far d e) l × (Before (far d e) (near d e) l → ⊥)

-- an edge of the lists leads from u to w
abbrev pub Link : {X : Type 0} → (ℕ → List X) → (X → ℕ) → ℕ → ℕ → Type 0
Link {X} lst far u w = (e : X) × In e (lst u) × (far e ≡ w)

-- one of rs reaches u along edges of the lists
abbrev pub Behind : {X : Type 0} → (ℕ → List X) → (X → ℕ) → List ℕ → ℕ → Type 0
Behind lst far rs u = (r : ℕ) × In r rs × Reach (Link lst far) r u

-- h has just the inside edges whose near end a root reaches along inside edges, each once
pub record Shows {W : Type 0} (d : Direction) (p : ℕ → Bool) (outs ins : ℕ → List (Edge W)) (rs : List ℕ) (h : List (Edge W)) : Type 0 where
  pub once : Once h
  pub within : (e : Edge W) → In e h → In e (inside d p outs ins (near d e))
  pub behind : (e : Edge W) → In e h → Behind (inside d p outs ins) (far d) rs (near d e)
  pub all : (n : ℕ) (e : Edge W) → In e (inside d p outs ins n) → Behind (inside d p outs ins) (far d) rs n → In e h

-- a law of every graph, direction and listed set
abbrev pub ListingLaw : (W : Type 0) → (ℕ → ℕ → (ℕ → List (Edge W)) → (ℕ → List (Edge W)) → Direction → (ℕ → Bool) → Type 0) → Type 0
ListingLaw W Law = GraphLaw W (λ bound edges outs ins. (d : Direction) (p : ℕ → Bool) → Law bound edges outs ins d p)

-- the list of roots is what it should be
abbrev pub RootsAreEntries : Type 0 → Type 0
RootsAreEntries W =
    ListingLaw W (λ bound edges outs ins d p. Roots d p outs ins bound (roots d p outs ins bound))

-- and no other list is
abbrev pub RootsAreOne : Type 0 → Type 0
RootsAreOne W =
    ListingLaw W (λ bound edges outs ins d p. (rs : List ℕ) → Roots d p outs ins bound rs → rs ≡ roots d p outs ins bound)

-- so is the order
abbrev pub OrderRunsOnward : Type 0 → Type 0
OrderRunsOnward W =
    ListingLaw W (λ bound edges outs ins d p. Order d p outs ins bound (order d p outs ins bound))

-- and so are the links
abbrev pub LinksShowWhatRootsReach : Type 0 → Type 0
LinksShowWhatRootsReach W =
    ListingLaw W (λ bound edges outs ins d p. Shows d p outs ins (roots d p outs ins bound) (links d p outs ins bound))

-- the set has, with a node, all of its component
abbrev pub Whole : (ℕ → List ℕ) → (ℕ → Bool) → Type 0
Whole out p = (u w : ℕ) → Same out u w → p u ≡ true → p w ≡ true

-- every node of a whole set is reached from a root along inside edges
abbrev pub RootsReachAll : Type 0 → Type 0
RootsReachAll W =
    ListingLaw W (λ bound edges outs ins d p. Whole (targets outs) p → (n : ℕ) → n < bound → p n ≡ true →
    Behind (inside d p outs ins) (far d) (roots d p outs ins bound) n)

-- so of a whole set links shows every inside edge
abbrev pub LinksShowAll : Type 0 → Type 0
LinksShowAll W =
    ListingLaw W (λ bound edges outs ins d p. Whole (targets outs) p → (n : ℕ) (e : Edge W) → In e (inside d p outs ins n) → In e (links d p outs ins bound))

-- at any time the stack and the edges shown have just a place for each inside edge out of a node reached; these are no more than the edges
abbrev pub LinksFit : Type 0 → Type 0
LinksFit W =
    ListingLaw W (λ bound edges outs ins d p. (k : ℕ) → let x = linking d p outs ins bound k in
    (length x.stack + length x.shown + share (inside d p outs ins) bound x.met ≡ share (inside d p outs ins) bound []) ×
    (share (inside d p outs ins) bound [] ≤ edges))

-- the walk adds a turn at its end; walks that have ended agree; and what a turn does
pub record ShowSteps {X : Type 0} (lst : ℕ → List X) (far : X → ℕ) (s : List X) (m : List ℕ) (h : List X) : Type 0 where
  pub last : (k : ℕ) → shows lst far (suc k) s m h ≡ (let x = shows lst far k s m h in show lst far x.stack x.met x.shown)
  pub agree : (k j : ℕ) → (shows lst far k s m h).stack ≡ [] → (shows lst far j s m h).stack ≡ [] → shows lst far k s m h ≡ shows lst far j s m h
  pub new : (e : X) → (In (far e) m → ⊥) → show lst far (e ∷ s) m h ≡ record { stack = reverse_aux (lst (far e)) s; met = far e ∷ m; shown = e ∷ h }
  pub old : (e : X) → In (far e) m → show lst far (e ∷ s) m h ≡ record { stack = s; met = m; shown = e ∷ h }

abbrev pub ShowGoesBySteps : Type 0 → Type 0
ShowGoesBySteps X = (lst : ℕ → List X) (far : X → ℕ) (s : List X) (m : List ℕ) (h : List X) → ShowSteps lst far s m h
