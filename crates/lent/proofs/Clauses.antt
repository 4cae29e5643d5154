-- The two clauses of a call that lends one buffer for its answer, from one proof of both: what it answers, and what the buffer holds. Assumes nothing.

pub value_and_out : {A B : Type 0} → A × B → record { value : A; out_after : B }
value_and_out p = record { value = p.0; out_after = p.1 }
