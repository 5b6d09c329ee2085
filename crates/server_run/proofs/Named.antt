-- The name of the setup's session has its form.
use Rattle.std.proofs.Common.{◌≡◌, true, codes, refl}
use Rattle.base_types.specs.SessionName.{is_session_name}

pub setup_named : is_session_name (codes "setup") ≡ true
unfolding is_session_name
setup_named = refl
