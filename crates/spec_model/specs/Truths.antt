-- Kleene's logic of three truths: true, false, and unknown, which is None.
use Rattle.std.specs.Prelude.{ℕ, Bool, true, false, not, Option, Some, None}

abbrev pub Truth3 : Type 0
Truth3 = Option Bool

-- true where both are, false where one is
abbrev pub both : Truth3 → Truth3 → Truth3
both (Some true) b = b
both (Some false) b = Some false
both None (Some false) = Some false
both None _ = None

-- true where one is, false where both are
abbrev pub either : Truth3 → Truth3 → Truth3
either (Some true) b = Some true
either (Some false) b = b
either None (Some true) = Some true
either None _ = None

-- the opposite; that of unknown is unknown
abbrev pub opposite : Truth3 → Truth3
opposite (Some b) = Some (not b)
opposite None = None

-- how true it is: unknown lies between false and true
abbrev pub rank : Truth3 → ℕ
rank (Some false) = 0
rank None = 1
rank (Some true) = 2
