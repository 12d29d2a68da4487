-- `job_shape::lent_words::enough` meets its contract. Assumes nothing.
use Rattle.job_shape.proofs.lent_words.enough.Goals as goal

pub overflow_mul-frame_words : goal.overflow_mul-frame_words
overflow_mul-frame_words c = record { fits = c.requires.0 }

pub overflow_mul-outcome_words : goal.overflow_mul-outcome_words
overflow_mul-outcome_words c = record { fits = c.requires.1 }
