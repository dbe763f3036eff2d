mod ReadOnly
