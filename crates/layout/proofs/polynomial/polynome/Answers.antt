-- `layout::polynomial::polynome` meets its contract: a coefficient is read back as `signed_at` gave it.
use Rattle.hexadecimal.proofs.Complement.{read_back}
use Rattle.layout.specs.Polynomial.{polynome_of}
use Rattle.layout.proofs.polynomial.polynome.Goals as goal

pub returns : goal.returns
unfolding polynome_of
returns c =
    rw (
      read_back c.signed_at.ensures record { sfits = c.signed_at.type_inv },
      read_back c.signed_at-2.ensures record { sfits = c.signed_at-2.type_inv },
      read_back c.signed_at-3.ensures record { sfits = c.signed_at-3.type_inv },
      read_back c.signed_at-4.ensures record { sfits = c.signed_at-4.type_inv },
      c.date_at.ensures,
    )
